mod Fans
